pub mod Raycast
