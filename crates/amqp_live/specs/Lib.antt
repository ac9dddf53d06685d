-- what is said of a connection from end to end
pub mod Said
-- how it ends
pub mod Ends
