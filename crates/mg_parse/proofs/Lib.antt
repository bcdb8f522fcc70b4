mod Fed
mod Read
