pub mod HasLaws
pub mod PushLaws
pub mod SearchLaws
