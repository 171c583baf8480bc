-- The members of a clause in the table, as the code finds them.
pub mod Members
