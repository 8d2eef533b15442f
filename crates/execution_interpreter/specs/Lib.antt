-- Executes: what the contracts cite. Budget: the loop of a budgeted run.
pub mod Executes
pub mod Budget
