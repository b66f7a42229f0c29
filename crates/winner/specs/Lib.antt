pub mod Support
pub mod FirstPast
pub mod Board
pub mod Winner
pub mod BoardTerms
pub mod WinnerTerms
