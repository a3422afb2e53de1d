pub mod Leading
pub mod TableLaws
pub mod BoardingLaws
pub mod PairLaws
