pub mod Faults
pub mod Banks
pub mod OneRead
pub mod Rounds
pub mod JoinedBanks
pub mod JoinedPlaces
pub mod JoinedBankLaws
