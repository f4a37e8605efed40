-- What connectives that wait make of the conditions behind them.
pub mod Forms
pub mod Waiting
