mod Examples
mod Steps
