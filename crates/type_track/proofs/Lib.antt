mod Growing
mod Asking
mod Stating
mod Findings
mod Barring
mod Searching
mod Numbering
mod Posing
