mod Words
mod Making
mod Handing
