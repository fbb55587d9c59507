pub mod FrameTexts
pub mod ServerTexts
pub mod OpenedFronts
mod FrameFronts
mod HandshakeTexts
mod HandshakeSteps
pub mod Handshaking
