pub mod Logs
pub mod Refusals
pub mod FixOrder
pub mod FixOrderLaws
pub mod MiddleRecords
