pub mod Listing
pub mod Fitting
pub mod Offering
pub mod Shaping
pub mod Firsts
pub mod Determined
pub mod Deciding
pub mod Going
