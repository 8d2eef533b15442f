-- RunsMoved: a run of transactions moved down. Leave: which leave, and those that stay closed up. Clear: the places behind them.
pub mod RunsMoved
pub mod Leave
pub mod Clear
