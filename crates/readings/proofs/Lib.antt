pub mod Listed
pub mod Laws
pub mod HeldPlayers
pub mod HeldLawful
pub mod HasGood
pub mod Whole
pub mod Answers
