pub mod PrinterTasks
pub mod RoundTrip
mod Examples
