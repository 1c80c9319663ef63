pub mod ShortVec
