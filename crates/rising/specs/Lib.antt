-- What a verdict by rising size promises.
pub mod Promises
