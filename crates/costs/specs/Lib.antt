-- What joining two costs asks for.
pub mod Costs
