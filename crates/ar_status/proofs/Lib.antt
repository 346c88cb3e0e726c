mod Changing
mod Connecting
mod Shifting
