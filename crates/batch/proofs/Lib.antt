pub mod ReportLaws
pub mod PageLaws
