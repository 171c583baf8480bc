-- Records of 64 numbers in a lent work buffer.
pub mod Records
