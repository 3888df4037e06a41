mod Adding
mod Between
mod Losses
mod Numbered
mod Order
