mod TwoSeats
mod Crew
