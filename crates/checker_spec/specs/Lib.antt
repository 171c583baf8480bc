-- The checker: what it answers and what each lent buffer then holds, for every input.
pub mod CheckText
pub mod Promises
pub mod Orders
pub mod Handed
