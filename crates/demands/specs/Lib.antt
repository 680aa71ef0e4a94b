-- The customer's three demands, and later requests, of every list of calls on a session.
pub mod Trace
pub mod Results
pub mod Demands
pub mod Requests
