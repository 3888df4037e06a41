mod FilledRows
mod PathFinding
mod PathTesting
mod Showing
