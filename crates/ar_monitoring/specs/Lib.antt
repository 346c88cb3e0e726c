pub mod Monitoring
