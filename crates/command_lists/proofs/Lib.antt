mod Blanks
mod Alone
mod Outcomes
mod Taking
mod Reading
