mod Cases
mod Collected
mod Lines
mod Order
mod Steps
mod Written
