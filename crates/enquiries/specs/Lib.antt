pub mod Enquiries
pub mod Handing
