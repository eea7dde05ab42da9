pub mod Bytes
pub mod Leb128
pub mod Uvarint
