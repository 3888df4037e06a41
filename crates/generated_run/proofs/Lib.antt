mod Histories
mod Told
mod Counting
mod Beginning
mod Running
mod Lines
mod OneText
