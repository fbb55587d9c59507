pub mod Handshakes
