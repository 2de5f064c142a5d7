pub mod ScoringSlots
