pub mod LineFeeds
pub mod Parts
pub mod Judged
pub mod SizeChecks
