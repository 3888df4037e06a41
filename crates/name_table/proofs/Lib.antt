pub mod Keys
mod Numbers
mod Ranking
