-- The definitions and laws of what the host lends, lowest first.
pub mod Counting
pub mod HostRestart
