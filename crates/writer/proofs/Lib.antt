pub mod Wide
pub mod Written
pub mod Report
pub mod Core
