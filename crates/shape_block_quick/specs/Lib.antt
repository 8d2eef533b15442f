-- What the contracts of one block's quick test say, and the laws behind them.
pub mod Quick
