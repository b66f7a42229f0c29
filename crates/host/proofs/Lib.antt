pub mod PairLaws
pub mod RecordLaws
