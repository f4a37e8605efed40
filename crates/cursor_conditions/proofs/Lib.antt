pub mod ConditionLaws
pub mod SumLaws
pub mod Waiting
