pub mod Results
pub mod Laws
