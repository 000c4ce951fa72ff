-- Laws for the proofs.
mod Bytes
mod Places
mod Lines
mod Fields
mod Told
mod Scan
mod Writing
mod Grounds
