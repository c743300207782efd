-- What is in which file.
-- Laws: what is shown of JSON is read back
pub mod Laws
