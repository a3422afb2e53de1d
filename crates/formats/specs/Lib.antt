pub mod Contents
pub mod NetworkFile
pub mod RuleFile
pub mod Theorems
pub mod Examples
