-- What is believed: what serving a client by a double does.
pub mod Serving
