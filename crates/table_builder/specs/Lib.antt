-- The nodes, clauses and the goal that lines make in the table.
pub mod Nodes
-- Symbols: declaring them, and applying them.
pub mod Symbols
-- The order in force.
pub mod Orders
