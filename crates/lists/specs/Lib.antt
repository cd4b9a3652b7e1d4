pub mod Chains
pub mod Filings
pub mod Groups
pub mod Grown
pub mod Lists
pub mod Numbers
