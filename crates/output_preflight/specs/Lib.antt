pub mod Preflight
