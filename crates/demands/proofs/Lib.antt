-- The demands and the requests, proved.
pub mod Reached
pub mod Results
pub mod Demand1
pub mod Demand2
pub mod Demand3
pub mod Requests
pub mod Request11
pub mod Request12
