pub mod Latency
