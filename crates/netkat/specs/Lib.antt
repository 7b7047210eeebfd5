pub mod InnerReading
