-- Laws that every crate uses: tests, capped sums, words, bits, writing into a lent buffer, and tables of rows.
pub mod Tests
pub mod Lists
pub mod Sums
pub mod Writer
pub mod Words
pub mod Bits
pub mod ByteBits
pub mod Answering
pub mod Output
pub mod Numbers
pub mod TableBytes
pub mod Rows
pub mod Claims
