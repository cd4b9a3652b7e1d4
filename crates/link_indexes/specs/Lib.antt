pub mod Facts
pub mod Filings
pub mod Rows
pub mod Tables
