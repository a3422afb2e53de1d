pub mod BothWays
pub mod NetworkFile
pub mod RuleFile
pub mod Examples
pub mod Chains
